-- How the work goes: rows as words, and one cell of a row.
pub mod Words
pub mod Cells
pub mod Grew
