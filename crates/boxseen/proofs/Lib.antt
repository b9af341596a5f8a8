pub mod Seen
pub mod Shared
pub mod Settled
