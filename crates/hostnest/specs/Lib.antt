pub mod Nest
pub mod Apart
