pub mod Frame
pub mod Points
pub mod Bytes
