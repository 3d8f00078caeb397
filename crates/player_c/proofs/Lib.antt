-- The calls by what was answered.
pub mod Calls
