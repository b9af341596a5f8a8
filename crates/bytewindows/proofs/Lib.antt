pub mod Blocks
pub mod Seen
pub mod Settled
