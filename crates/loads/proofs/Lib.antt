-- What the proofs use.
pub mod Words
pub mod Onto
