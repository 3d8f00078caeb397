-- The laws by which a list of ticks is read.
pub mod Places
pub mod Readings
pub mod Whole
pub mod Encode
pub mod Nearest
