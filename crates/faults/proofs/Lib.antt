pub mod Offsets
pub mod Fixed
pub mod Seek
pub mod Fault
pub mod Settled
