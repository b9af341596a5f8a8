pub mod Settled
pub mod Lengths
