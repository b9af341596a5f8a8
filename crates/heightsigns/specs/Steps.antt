-- How the work goes: heights by their signs, the cells that are taken of a row, and a padded row.
pub mod Sides
pub mod Taken
pub mod Padded
