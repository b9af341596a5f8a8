pub mod Values
pub mod Settled
