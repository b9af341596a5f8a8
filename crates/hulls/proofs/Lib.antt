pub mod Extents
pub mod Hulls
pub mod Settled
