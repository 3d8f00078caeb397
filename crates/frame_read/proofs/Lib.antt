-- The laws by which the reader's functions are proved.
pub mod Reading
