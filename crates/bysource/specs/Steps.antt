-- How the work goes: what two rooms show of a source row.
pub mod Filled
pub mod Bytes
