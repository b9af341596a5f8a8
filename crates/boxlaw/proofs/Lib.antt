pub mod Swept
pub mod Padded
pub mod Point
pub mod Row
