pub mod Grown
pub mod Reached
pub mod Marker
pub mod Steps
