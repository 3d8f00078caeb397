-- The laws by which the functions are proved, the claims, and computed cases.
pub mod Search
pub mod Claims
pub mod Cases
