-- The data length for a wait and the longest wait for a data length, for programs in C.
pub mod Call
