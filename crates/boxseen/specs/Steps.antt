-- How the work goes: the rows that a row sees.
pub mod Seen
