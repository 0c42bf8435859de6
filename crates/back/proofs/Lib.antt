-- The promise of a record there and back, and the calls put together.
pub mod Trips
pub mod Calls
