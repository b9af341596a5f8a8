-- How the work goes: a padded row in words, and what the rows of an element find in it.
pub mod Strip
pub mod Row
