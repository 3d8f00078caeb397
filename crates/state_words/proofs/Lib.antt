-- The laws by which states are packed and unpacked.
pub mod Kept
pub mod Numbers
pub mod Puts
