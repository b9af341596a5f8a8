-- How the work goes: the two ways, what a row asks for, cell after cell.
pub mod Ways
pub mod Ready
pub mod Fold
pub mod Row
