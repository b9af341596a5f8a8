pub mod Settled
pub mod Hit
pub mod Pairs
