-- Two taps of one pair, joined: document 02, item 10.
pub mod Joining
pub mod Kept
pub mod Pieces
pub mod Choosing
