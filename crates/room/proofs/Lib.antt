-- The proofs of what is promised of listings.
pub mod Lasts
pub mod Passing
pub mod Rooms
