-- What the meter answers: the reader's steps, repeated.
pub mod Meter
pub mod Answers
pub mod Glances
pub mod Meets
pub mod Openings
