-- The HART frame, from document 01, "Frames" and "Refusals", in its order.
pub mod Limits
pub mod Delimiter
pub mod Address
pub mod Check
pub mod Frame
pub mod Write
pub mod Read
pub mod Growing
