pub mod Put
pub mod Rows
pub mod Settled
