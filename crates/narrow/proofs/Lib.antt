pub mod Strips
pub mod Cells
pub mod Rows
pub mod Swept
pub mod Settled
