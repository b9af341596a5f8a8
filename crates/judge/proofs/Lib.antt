pub mod Admitted
pub mod Bodies
pub mod Settled
