pub mod Loops
pub mod Words
pub mod Floods
pub mod Cells
pub mod Sound
pub mod Settled
