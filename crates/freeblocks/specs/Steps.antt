-- How the work goes: rows joined with no regard to the ends, and when that is the same.
pub mod Plain
