-- The laws by which a device's burst content and its tick are proved.
pub mod Ticks
