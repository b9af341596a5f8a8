pub mod Held
pub mod Blocks
pub mod Settled
