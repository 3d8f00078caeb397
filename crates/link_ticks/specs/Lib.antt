-- What ticks of a link promise, by the definitions of turns.
pub mod Ticks
