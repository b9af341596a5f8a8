pub mod Cells
pub mod Row
pub mod Made
pub mod Settled
