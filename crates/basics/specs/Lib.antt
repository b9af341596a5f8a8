pub mod Lists
pub mod Bits
pub mod Tests
pub mod Zip
pub mod Bytes
pub mod Settles
