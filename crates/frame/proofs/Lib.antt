-- The laws and theorems of the frame's definitions.
pub mod Checks
pub mod Delimiters
pub mod Growing
pub mod Lengths
pub mod Longest
pub mod Prefix
pub mod Preambles
pub mod Reread
pub mod Rewritten
pub mod Sound
pub mod Taken
