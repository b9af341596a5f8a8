pub mod Get
pub mod Apart
