-- Laws of the meter.
pub mod Nexts
mod Glances
pub mod Meets
mod Openings
pub mod Keeps
pub mod Numbered
