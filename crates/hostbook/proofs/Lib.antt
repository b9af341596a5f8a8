pub mod GetPacked
pub mod Apart
pub mod Settled
