-- The laws of what the program `frames` prints.
pub mod Printing
pub mod Bad
pub mod Pieces
pub mod Fits
