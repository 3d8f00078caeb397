-- The laws by which a run is proved.
pub mod Going
pub mod Steps
pub mod Parts
pub mod LateSteps
pub mod Senders
pub mod Kept
pub mod LateKept
pub mod Every
pub mod Runs
