pub mod Refusals
pub mod Operations
pub mod Pictures
pub mod Works
pub mod Lines
pub mod Outcomes
pub mod Settled
