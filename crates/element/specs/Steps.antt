pub mod Words
pub mod Heights
