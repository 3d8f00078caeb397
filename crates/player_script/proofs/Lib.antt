-- The laws of scripts: by which the code is proved, and for who plays one tick by tick.
pub mod Records
pub mod Good
pub mod Walks
pub mod Calls
pub mod Ticks
pub mod Free
pub mod Length
pub mod Pieces
pub mod Places
