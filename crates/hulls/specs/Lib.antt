pub mod Extent
pub mod Hull
