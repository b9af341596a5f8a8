-- How the work goes: byte by byte.
pub mod Bytes
