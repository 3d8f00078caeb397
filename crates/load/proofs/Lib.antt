-- The laws of reading a number.
pub mod Numbers
