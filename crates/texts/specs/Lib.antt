-- Text in ASCII: numbers in decimal and hexadecimal, and text that is put into a lent buffer.
pub mod Decimal
pub mod Digits
pub mod Put
