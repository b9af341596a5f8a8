-- How the work goes: the padded row, the cells of a row word and the windows that make them up, one row.
pub mod Padded
pub mod Cells
pub mod Line
