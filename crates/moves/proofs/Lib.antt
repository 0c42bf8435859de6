-- The proofs of moving bytes.
pub mod Moves
pub mod Cases
