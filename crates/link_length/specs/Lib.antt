-- Document 02, item 12: how much data for a wanted turn.
pub mod Length
pub mod Claims
