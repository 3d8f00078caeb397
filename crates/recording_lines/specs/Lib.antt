-- What the program `frames` prints of a recording.
pub mod Lines
pub mod Bad
pub mod Promises
pub mod Claims
