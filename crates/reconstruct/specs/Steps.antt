-- How the work goes: visits of rows.
pub mod Visits
