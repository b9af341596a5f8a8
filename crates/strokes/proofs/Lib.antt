pub mod Strokes
pub mod Places
pub mod RowKinds
pub mod Settled
