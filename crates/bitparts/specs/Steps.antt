-- How the work goes: rooms of packed points.
pub mod Filled
pub mod Points
