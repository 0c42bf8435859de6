-- Laws that the proofs of the functions cite.
pub mod Synchsafe
pub mod Edits
pub mod Turns
pub mod Answers
