-- What a device's functions promise, by the definitions of turns.
pub mod Calls
pub mod Promises
