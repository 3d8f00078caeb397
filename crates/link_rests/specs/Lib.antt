-- A link that rests, and ticks of a link in which no host calls.
pub mod Uncalled
pub mod Rests
