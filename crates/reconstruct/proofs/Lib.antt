pub mod Visits
pub mod Missing
pub mod Made
pub mod Settled
