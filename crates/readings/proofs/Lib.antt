-- The laws of the readings table.
pub mod Searches
pub mod Puts
pub mod Enters
pub mod Views
mod Bytes
pub mod Newest
pub mod Sentences
pub mod Flats
mod Bits
pub mod Shown
mod Example
