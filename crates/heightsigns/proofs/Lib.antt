pub mod Lift
pub mod Cells
pub mod Line
pub mod Settled
