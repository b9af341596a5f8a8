-- How the work goes: a row from windows along a padded row.
pub mod Along
