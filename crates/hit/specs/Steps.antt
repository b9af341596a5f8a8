-- How the work goes: by outlines and row words, row after row.
pub mod Rows
