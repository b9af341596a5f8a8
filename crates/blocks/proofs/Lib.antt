pub mod Laid
pub mod Points
pub mod Settled
