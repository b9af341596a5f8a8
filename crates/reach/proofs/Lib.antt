pub mod Links
pub mod Loops
pub mod Walked
pub mod Bits
pub mod Meaning
pub mod Settled
