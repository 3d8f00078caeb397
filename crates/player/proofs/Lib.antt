-- The laws by which the player is proved, and the theorem that each frame that a party sends to the end alone has its line.
pub mod Runs
pub mod Sent
pub mod PlaysOn
pub mod Going
pub mod Started
pub mod Whole
pub mod Pieces
pub mod Listed
pub mod Turned
