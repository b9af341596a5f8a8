-- How the work goes: an operation and an outline in one number.
pub mod Plan
