-- The laws by which a run over a recording is proved, and those of its form.
pub mod Runs
pub mod Forms
pub mod Ticks
