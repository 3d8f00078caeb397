-- The plays of loads, from document 02, item 4: what is claimed of every play, and the kinds that occur in it.
pub mod Occur
pub mod Plays
