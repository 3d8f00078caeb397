-- The laws by which the starts are proved.
pub mod Starts
