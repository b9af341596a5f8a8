pub mod Words
pub mod WellMade
pub mod Cells
pub mod Heights
pub mod Settled
