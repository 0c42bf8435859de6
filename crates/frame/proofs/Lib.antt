-- What the proofs use.
pub mod Headers
mod Utf8
mod Ends
mod Children
mod Widths
mod Packed
mod Counts
mod Unpacking
mod Counters
pub mod Bodies
pub mod Passes
