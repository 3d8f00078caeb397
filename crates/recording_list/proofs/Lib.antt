-- The laws by which a recording is read by jumps.
pub mod Sentences
pub mod Walks
pub mod Sounds
pub mod Readers
pub mod Frames
pub mod Skips
pub mod Lists
pub mod Short
pub mod Pieces
pub mod Jumps
pub mod Worked
