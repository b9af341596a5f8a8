-- How the work goes: a rectangle, and a padded row.
pub mod Box
pub mod Padded
