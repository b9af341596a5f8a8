pub mod Shape
pub mod Descriptor
pub mod Record
pub mod Steps
