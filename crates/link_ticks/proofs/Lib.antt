-- The laws of the loops over the parties and over the ticks.
pub mod Cases
pub mod Lists
pub mod Follows
pub mod Devices
pub mod Masters
pub mod Going
pub mod Answers
