pub mod Within
pub mod Judged
pub mod Settled
