-- How the work goes: windows that make up a row word, the kinds of rows, and places found one after another.
pub mod Strokes
pub mod Places
