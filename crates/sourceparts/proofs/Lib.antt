pub mod Shown
pub mod Part
pub mod Whole
pub mod Bytes
