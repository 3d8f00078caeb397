-- The player's script, from document 01: what it is, what makes it good, and its calls.
pub mod Script
pub mod Walk
pub mod Reads
pub mod Pieces
