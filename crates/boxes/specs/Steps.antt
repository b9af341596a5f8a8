-- How the work goes: the row words of a rectangle.
pub mod Box
