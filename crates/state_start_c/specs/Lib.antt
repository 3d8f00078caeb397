-- The starts for programs in C.
pub mod Start
