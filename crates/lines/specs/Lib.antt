pub mod Buffers
pub mod Heads
