pub mod Least
pub mod Rows
pub mod Settled
