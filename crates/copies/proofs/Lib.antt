pub mod Copies
pub mod ReadBack
pub mod InPlace
pub mod Settled
