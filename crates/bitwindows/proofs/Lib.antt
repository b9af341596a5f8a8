pub mod Gathered
pub mod Settled
