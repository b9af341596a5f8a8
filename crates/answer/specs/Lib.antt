pub mod Answer
pub mod Refuse
pub mod Lent
pub mod Packed
pub mod Apart
