-- The tick reader for programs in C: its state as words, and its tick.
pub mod Tick
