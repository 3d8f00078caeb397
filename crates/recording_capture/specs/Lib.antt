-- What the program `capture` writes of a recording.
pub mod Packet
pub mod Capture
pub mod Promises
pub mod Claims
