pub mod ReadPacked
pub mod PnmPacked
pub mod Apart
pub mod Settled
