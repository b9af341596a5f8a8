pub mod Puts
pub mod Pieces
pub mod Decimals
pub mod Settled
