-- How the work goes: blocks over the middle, the columns beside it, the rows above and below.
pub mod Spots
pub mod Made
