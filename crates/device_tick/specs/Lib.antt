-- A device's burst content and its tick, by the definitions of turns.
pub mod Tick
pub mod Content
