-- Names for parts of a master's definitions.
pub mod Parts
