-- A party behind a chip does what it does without it: for any party, for a master and for a device; the laws by which the two ticks are proved; a run in which byte 2 is not read; and runs with further accesses, spared and not.
pub mod Same
pub mod Deaf
pub mod Masters
pub mod Devices
pub mod Ticks
pub mod Unread
pub mod Busy
