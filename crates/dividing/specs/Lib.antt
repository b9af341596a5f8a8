pub mod Least
pub mod Board
pub mod Divide
