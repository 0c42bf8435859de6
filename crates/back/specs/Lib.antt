-- A record there and back.
pub mod Answers
pub mod Trips
