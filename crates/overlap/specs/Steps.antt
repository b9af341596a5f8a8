-- How the work goes: row after row, cell after cell.
pub mod Shared
