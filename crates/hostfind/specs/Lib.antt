pub mod Find
pub mod Apart
