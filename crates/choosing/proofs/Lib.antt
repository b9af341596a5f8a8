pub mod Choices
pub mod Settled
