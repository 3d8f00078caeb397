-- The player, from document 01: what is printed for a script, and how its code stands for that.
pub mod Play
pub mod Listed
pub mod Turned
pub mod Ready
pub mod Ticks
pub mod Pieces
