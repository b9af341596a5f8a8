pub mod Cover
pub mod Quarter
