-- How the work goes: points in words.
pub mod Words
