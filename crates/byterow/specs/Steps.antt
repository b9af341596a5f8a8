-- How the work goes: a row of the result.
pub mod Row
