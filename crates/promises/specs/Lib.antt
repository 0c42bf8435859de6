-- The promises, and the sample that shows that they speak of something.
pub mod Written
pub mod Calls
pub mod Reading
pub mod Promises
pub mod Altered
pub mod Rooms
pub mod Refused
pub mod Metering
pub mod Money
pub mod Samples
