-- What the code of the port's devices promises, by the definitions of crates/port.
pub mod Calls
pub mod Ticks
pub mod Parts
