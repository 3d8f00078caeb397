-- What a device does after what it heard, by the definitions of turns.
pub mod Hearing
