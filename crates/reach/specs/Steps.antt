-- How the work goes: the links that the code holds, row words, and boards of sums.
pub mod Links
pub mod Words
pub mod Boards
