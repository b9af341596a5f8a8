pub mod Near
pub mod Squares
pub mod Counts
pub mod Worked
