pub mod Windows
pub mod Settled
