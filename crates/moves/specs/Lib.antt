-- Moving bytes inside one buffer.
pub mod Moves
