pub mod Places
pub mod Fold
pub mod Gathered
pub mod Swept
pub mod Written
pub mod Settled
