pub mod Variants
pub mod Differences
pub mod OneToOne
pub mod Order
pub mod Settled
pub mod Lent
pub mod Packed
pub mod Apart
