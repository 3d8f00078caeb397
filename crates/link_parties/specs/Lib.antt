-- The parties of a link in the code, and how they stand for those of turns.
pub mod Part
pub mod Stands
pub mod Readers
pub mod Ways
