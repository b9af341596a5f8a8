pub mod Share
pub mod Maps
pub mod Work
pub mod Steps
