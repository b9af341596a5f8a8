-- How the work goes: what holds of a picture while the marker grows in it.
pub mod Growing
