-- What the exported functions answer, and the words that they lend on.
pub mod Words
pub mod Calls
pub mod Meters
pub mod Raises
pub mod Edits
pub mod Metering
