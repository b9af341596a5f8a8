-- How the work goes: rows joined down the columns.
pub mod Down
