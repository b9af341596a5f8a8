pub mod Plans
pub mod Settled
