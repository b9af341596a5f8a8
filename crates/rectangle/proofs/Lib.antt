pub mod Turns
pub mod Boxes
pub mod Settled
