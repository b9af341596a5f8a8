pub mod Nesting
pub mod Steps
