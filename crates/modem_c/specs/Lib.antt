-- The modem chip over a script of accesses.
pub mod Script
