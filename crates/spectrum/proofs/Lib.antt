pub mod Counted
pub mod Settled
