-- How the work goes: windows of a row of bytes.
pub mod Four
