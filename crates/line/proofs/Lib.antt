-- The laws and theorems of the line.
pub mod Agreement
pub mod GapRuns
pub mod Gaps
pub mod Hearing
pub mod Leads
pub mod Profiles
pub mod Ticks
