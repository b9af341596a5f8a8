pub mod Weighted
pub mod Steps
