-- The law by which the reader's tick is proved.
pub mod Ticks
