-- What the functions that put lines answer.
pub mod Placed
pub mod Answers
