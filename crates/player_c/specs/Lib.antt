-- The player, the conversion of scripts and the writer of loads for programs in C and Rust.
pub mod Call
