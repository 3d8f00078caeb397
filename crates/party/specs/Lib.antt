-- What master and device have in common: document 01, "Line and ticks".
pub mod Hears
pub mod Numbers
