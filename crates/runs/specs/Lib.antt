-- What is claimed of whole runs beside demand 3.
pub mod FirstStx
pub mod Credit
pub mod Backs
pub mod SoundPair
pub mod Late
pub mod LateSoundPair
