-- The plays of loads.
pub mod Opening
pub mod First
pub mod Occurring
pub mod Within
pub mod Listing
