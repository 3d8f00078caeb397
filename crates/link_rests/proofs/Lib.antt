-- The laws of a link that rests.
pub mod Parts
pub mod Resting
pub mod RestingLink
pub mod Timers
