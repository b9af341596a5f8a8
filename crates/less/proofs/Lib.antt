pub mod Less
pub mod Settled
