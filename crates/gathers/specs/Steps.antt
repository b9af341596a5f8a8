-- How the work goes: what stands at several places, joined.
pub mod Gathered
