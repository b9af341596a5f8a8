pub mod Reconstruct
pub mod Steps
