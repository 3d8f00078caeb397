-- A recording of the line, which bytes are one, and what a run over one promises.
pub mod Form
pub mod Recording
pub mod Marks
