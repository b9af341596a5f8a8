-- How the work goes: bytes joined at either depth.
pub mod Joins
