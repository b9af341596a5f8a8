-- How the work goes: what is answered where no candidate was accepted.
pub mod Summed
