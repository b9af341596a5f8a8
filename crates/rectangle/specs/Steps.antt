-- How the work goes: a picture by a rectangle, two rows at a time.
pub mod Box
