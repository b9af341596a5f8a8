pub mod Weights
pub mod Settled
