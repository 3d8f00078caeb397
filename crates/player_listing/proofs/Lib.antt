-- The laws by which the output is proved, how long it can be, and that it has a line for each frame sent to the end alone.
pub mod Words
pub mod Listens
pub mod Rows
pub mod Lengths
pub mod FrameLines
pub mod OutputLines
