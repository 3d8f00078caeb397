-- The theorems on the infrared port.
pub mod Numbers
pub mod Sentences
pub mod Taking
pub mod Starts
pub mod Since
pub mod Sending
pub mod Listening
pub mod NoBurst
pub mod Hands
pub mod Waking
pub mod Stx
pub mod Scenes
