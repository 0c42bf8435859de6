-- What is read and metered of a tag that was cut.
pub mod Members
pub mod Counts
pub mod Cuts
pub mod Regions
pub mod Tails
pub mod Reading
pub mod Metering
pub mod Runs
pub mod Rooms
pub mod Endings
pub mod Plain
pub mod Samples
pub mod PlainSamples
