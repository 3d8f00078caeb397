-- The line, from document 01: "Line and ticks", "Frames" (its last paragraph) and "Timers" (the profiles); with document 02, item 1.
pub mod Heard
pub mod Profile
pub mod Reader
pub mod Gaps
pub mod Told
