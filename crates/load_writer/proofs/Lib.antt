-- The laws of the load, and its writer's.
pub mod Draws
pub mod Records
pub mod Good
pub mod Bytes
pub mod Seeds
pub mod Places
pub mod Puts
pub mod Answers
pub mod Vectors
