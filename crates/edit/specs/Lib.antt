-- Editing a plain tag in place.
pub mod Edit
pub mod Lift
pub mod Locating
pub mod Lifting
pub mod Promises
pub mod LiftPromises
