pub mod Written
pub mod Tree
