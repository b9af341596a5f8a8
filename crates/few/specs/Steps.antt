-- How the work goes: the set cells as a list of places.
pub mod Listed
