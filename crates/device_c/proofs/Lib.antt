-- The laws by which a device's words are packed, unpacked and ticked.
pub mod Kept
pub mod Packs
pub mod Ticks
pub mod Found
