-- Scripts turned from one form into the other.
pub mod Turn
pub mod Kept
