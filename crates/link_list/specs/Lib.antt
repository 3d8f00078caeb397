-- A list of ticks as bytes.
pub mod Ticks
pub mod Read
pub mod Encode
pub mod Nearest
