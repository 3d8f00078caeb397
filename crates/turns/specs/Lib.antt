-- The rules of turns, from document 01: "Timers", "Master's turns", "Device's turns", "Runs of the link" and "Refusals"; demand 3; what is claimed of one party; and "Settled by proof". What else is claimed of whole runs stands in the crate runs.
pub mod Party
pub mod Master
pub mod Device
pub mod Link
pub mod Run
pub mod Ledgers
pub mod Demand3
pub mod Bursts
pub mod Settled
pub mod Told
pub mod Gaps
pub mod Attempts
pub mod Revisions
pub mod Tags
