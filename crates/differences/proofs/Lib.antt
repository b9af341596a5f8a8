pub mod Made
pub mod Settled
