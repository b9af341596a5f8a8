pub mod Filled
pub mod Joined
