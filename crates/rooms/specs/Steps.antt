-- How the work goes: windows in two rooms, and what stands at several places.
pub mod Joined
pub mod Lanes
