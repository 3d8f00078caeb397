-- The laws of the modem chip, and those by which its functions are proved.
pub mod Sentences
pub mod Accessing
pub mod Counting
pub mod Driving
pub mod Among
pub mod Excluded
pub mod Registers
