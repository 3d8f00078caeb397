-- What the definitions of every layer share.
pub mod Choice
pub mod Refusal
pub mod Store
pub mod Events
pub mod Lent
