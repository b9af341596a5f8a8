-- How the work goes: what the rooms show, and what has been joined so far.
pub mod Shown
pub mod Part
