pub mod Widths
pub mod Runs
pub mod Places
pub mod Settled
