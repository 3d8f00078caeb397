-- The laws by which the calls of a tick are proved.
pub mod Wanteds
