-- The player's output, from document 01: the lines of frames that were sent to the end, their text, and its place in a lent buffer.
pub mod Sents
pub mod Lines
pub mod FrameLines
pub mod Text
pub mod Promises
pub mod Rows
