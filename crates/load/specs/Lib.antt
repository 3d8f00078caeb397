-- The program's arguments.
pub mod Arguments
