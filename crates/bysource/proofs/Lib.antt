pub mod Filled
pub mod Joined
pub mod Settled
