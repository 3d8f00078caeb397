-- What the code of the port's master promises, by the definitions of crates/port.
pub mod Calls
pub mod Ticks
pub mod Parts
