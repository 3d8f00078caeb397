-- The laws by which a link's start is proved.
pub mod Starts
pub mod Started
