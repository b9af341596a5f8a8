pub mod Spots
pub mod Points
pub mod Made
pub mod Settled
