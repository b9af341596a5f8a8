pub mod Sizes
pub mod Rows
pub mod Points
pub mod Padding
pub mod Bytes
pub mod Settled
pub mod Shown
