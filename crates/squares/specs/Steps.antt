-- What the work stands on: a row, and a picture.
pub mod Fits
