-- The calls of a tick that a script wants, as calls of the code's link.
pub mod Calls
