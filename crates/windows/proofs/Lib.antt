pub mod InPlace
pub mod Packed
pub mod Places
pub mod Bounds
pub mod Seen
pub mod Row
pub mod Settled
pub mod Again
