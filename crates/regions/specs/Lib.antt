pub mod Limits
pub mod Regions
pub mod Listing
pub mod Once
pub mod Steps
