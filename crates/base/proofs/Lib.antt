-- The laws of the shared definitions, which the proofs of every layer cite.
pub mod Choices
pub mod Lists
pub mod Stores
pub mod Filling
pub mod Tables
