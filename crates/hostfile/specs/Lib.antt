pub mod Read
pub mod Apart
