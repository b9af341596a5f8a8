pub mod Packed
pub mod Apart
pub mod Settled
