-- Which ticks of a party have a line.
pub mod Lines
