-- That turning keeps every value, and which scripts fit the other form.
pub mod Kept
pub mod Fits
pub mod Copies
pub mod Widening
pub mod Narrowing
pub mod Converts
pub mod Turns
