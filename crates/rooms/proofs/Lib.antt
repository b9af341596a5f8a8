pub mod Row
pub mod Blocks
pub mod Windows
pub mod Lanes
pub mod Settled
