pub mod Hit
pub mod Steps
