-- What the proofs of several functions use; how long lines are, for the crates above.
mod Puts
mod Numbers
pub mod Parts
mod Lines
