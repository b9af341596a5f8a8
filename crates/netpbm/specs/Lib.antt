pub mod File
pub mod ReadWrite
pub mod Steps
