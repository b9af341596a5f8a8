-- How the work goes: morphology's operations over an outline and its row words.
pub mod Applied
