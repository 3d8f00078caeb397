-- What the example programs print of a frame's header.
pub mod Header
