pub mod Settled
pub mod Refusals
