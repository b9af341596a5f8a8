pub mod Scans
pub mod Marks
pub mod Worked
pub mod Settled
