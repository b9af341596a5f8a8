pub mod Points
pub mod Next
pub mod Settled
