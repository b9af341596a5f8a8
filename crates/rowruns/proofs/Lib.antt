pub mod Pieces
pub mod Columns
pub mod Points
pub mod Stepped
pub mod Settled
