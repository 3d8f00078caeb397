-- The laws by which a script of accesses is proved.
pub mod Script
