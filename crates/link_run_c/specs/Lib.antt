-- What a run is started with, as numbers.
pub mod Settings
