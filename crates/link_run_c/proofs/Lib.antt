-- The laws by which the function is proved, and starts that are refused.
pub mod Made
pub mod Counted
pub mod Refused
