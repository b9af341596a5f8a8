pub mod Descriptors
pub mod Search
pub mod Sums
pub mod Finding
pub mod Settled
