-- Document 02, item 13: the infrared port.
pub mod Numbers
pub mod Master
pub mod Device
pub mod Ticks
pub mod Starts
pub mod Sending
pub mod Listening
pub mod Waking
pub mod NoBurst
