-- A state as words of 64 bits, one for each field, in memory that a program in C lends.
pub mod Fields
pub mod Reader
pub mod Fits
pub mod Numbers
