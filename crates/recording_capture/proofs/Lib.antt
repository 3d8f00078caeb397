-- The laws of what the program `capture` writes.
pub mod Headers
pub mod Capturing
pub mod Pieces
pub mod Fits
pub mod AsHeard
