-- Laws of the port's master and devices for programs in C.
pub mod Kept
pub mod Ticks
pub mod Starts
