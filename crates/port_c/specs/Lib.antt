-- The infrared port's master and devices for programs in C: their states as words, their starts and their ticks.
pub mod Words
pub mod Fits
pub mod Tick
pub mod Start
