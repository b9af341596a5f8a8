-- How the work goes: two rows by a rectangle.
pub mod Fit
pub mod Put
