-- The laws of the table over flat numbers.
pub mod Puts
