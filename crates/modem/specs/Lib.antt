-- Document 02, item 5: the modem chip, its registers, a driver, alone and among further accesses, and what is claimed of the tick count.
pub mod Parity
pub mod Chip
pub mod Accesses
pub mod Driver
pub mod Further
pub mod Run
