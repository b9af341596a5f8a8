pub mod Work
pub mod Prints
pub mod Steps
