pub mod Sums
pub mod Rows
pub mod Made
pub mod Settled
