-- The rule by bytes, the laws of the loops and of the answer, and the theorems of specs/Kept and specs/Pieces.
pub mod Rule
pub mod Loops
pub mod Answers
pub mod Kept
pub mod Again
pub mod Pieces
pub mod Worked
