-- What a program in C is told.
pub mod Numbers
