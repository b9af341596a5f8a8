pub mod Stores
pub mod Children
pub mod Refused
pub mod Whole
pub mod Settled
