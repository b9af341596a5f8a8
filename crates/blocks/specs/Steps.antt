-- How the work goes: bytes joined, stored one after another, and their points.
pub mod Joins
pub mod Laid
pub mod Points
pub mod Block
