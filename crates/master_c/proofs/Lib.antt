-- The laws by which a master's words are packed, unpacked and ticked.
pub mod Kept
pub mod Ticks
pub mod Found
