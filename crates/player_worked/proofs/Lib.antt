-- What the definition of the player prints, computed: document 01's example, and two scripts of an independent simulation.
pub mod Example
pub mod Recorded
