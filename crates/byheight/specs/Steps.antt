-- How the work goes: the cells that are listed, and the result while it is made.
pub mod Listed
pub mod Part
