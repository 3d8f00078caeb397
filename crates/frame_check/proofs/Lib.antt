-- The laws of the exclusive-or by words.
pub mod Xors
pub mod Words
