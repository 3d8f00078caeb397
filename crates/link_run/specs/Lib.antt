-- A run of the link over a lent list of ticks, and what it promises.
pub mod Run
pub mod Late
pub mod Step
