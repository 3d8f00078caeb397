-- Document 02, item 5: a master and a device behind a modem chip.
pub mod Behind
pub mod Ticks
