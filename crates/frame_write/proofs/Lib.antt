-- The laws by which the writer's functions are proved.
pub mod Puts
pub mod Answers
