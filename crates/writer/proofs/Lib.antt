-- Worked cases of the writer, then laws.
pub mod WorkedWritings
pub mod Lengths
pub mod Adds
pub mod Ranges
pub mod Puts
pub mod Digits
pub mod Layouts
pub mod Smalls
pub mod Packs
pub mod Parts
pub mod Heads
pub mod Finishes
pub mod Gaps
