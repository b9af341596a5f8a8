-- How the work goes: a row of the result, one row of the element after another.
pub mod Row
pub mod Added
