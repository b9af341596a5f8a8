-- How the work goes: bytes joined with those further on, piece by piece.
pub mod Pieces
