pub mod Held
pub mod Reading
pub mod Writing
pub mod OwnHeader
pub mod RoundTrip
pub mod Settled
