-- Raising a counter in place.
pub mod Raise
pub mod Frames
pub mod Seeks
pub mod Scans
pub mod Promises
