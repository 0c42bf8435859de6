-- Laws that the proofs of several functions use.
pub mod Answers
pub mod Insides
pub mod Onwards
pub mod Areas
pub mod Openings
pub mod Sources
pub mod Passes
pub mod Looks
pub mod Padding
