-- An upload that stopped: what is read and metered of a tag that was cut.
pub mod Stopped
pub mod Promises
pub mod Endings
pub mod Plain
