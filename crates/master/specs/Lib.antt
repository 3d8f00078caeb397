-- What a master's functions promise, and names for parts of its definitions.
pub mod Answers
pub mod Tick
pub mod Takes
pub mod Parts
