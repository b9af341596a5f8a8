pub mod Listed
pub mod Marks
pub mod Part
pub mod Whole
pub mod Settled
