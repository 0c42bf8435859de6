-- What the functions of this crate answer, on the definitions of the format.
pub mod Insides
pub mod Steps
pub mod Areas
pub mod Sources
pub mod Openings
pub mod Passing
pub mod Plain
