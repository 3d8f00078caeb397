-- The latest readings table over flat numbers.
pub mod Flat
