pub mod Steps
pub mod Counts
pub mod Growing
pub mod Marker
pub mod Worked
