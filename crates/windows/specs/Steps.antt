-- How the work goes: windows in place, what stands at several places, and the order that joins go by.
pub mod Widened
pub mod Places
pub mod Bounds
