-- What the functions that write a frame's parts promise.
pub mod Puts
