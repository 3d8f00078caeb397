-- Laws of the data of a call, of readers that were compared, and that the short ways are a party's tick.
pub mod Parts
pub mod Readers
pub mod Ways
