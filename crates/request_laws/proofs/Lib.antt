pub mod Requests
pub mod Named
