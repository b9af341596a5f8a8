pub mod Words
pub mod Runs
pub mod Covers
pub mod Bytes
pub mod Margins
pub mod Folded
pub mod Settled
