-- The laws by which the master's functions are proved.
pub mod Takes
pub mod Requests
pub mod Ticks
