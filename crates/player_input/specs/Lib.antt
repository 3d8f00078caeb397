-- The script on standard input.
pub mod Input
