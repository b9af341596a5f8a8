pub mod Jobs
pub mod Room
pub mod Settled
