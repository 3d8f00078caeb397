-- A device for programs in C: its state as words, and its tick.
pub mod Words
pub mod Fits
pub mod Tick
