pub mod Applied
pub mod Twice
pub mod Read
pub mod Settled
