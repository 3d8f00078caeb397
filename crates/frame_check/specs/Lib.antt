-- What the functions that work out the exclusive-or by words promise.
pub mod Words
