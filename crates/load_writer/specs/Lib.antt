-- The load from a seed number, from document 02, item 4: how numbers become records, what the writer promises, and what is claimed of every script.
pub mod Load
pub mod Write
pub mod Claims
pub mod Fits
