-- The laws by which a device's functions behind what it heard are proved.
pub mod Parts
pub mod Hearing
