pub mod Shared
pub mod Settled
