-- The laws of reading a script that is longer than the room.
pub mod Rooms
pub mod Told
