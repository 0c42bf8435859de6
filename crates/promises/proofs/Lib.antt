-- The proofs of the promises.
pub mod Sounds
pub mod Adding
pub mod Calls
pub mod Opening
pub mod Stepping
pub mod RoundTrip
pub mod Headers
pub mod NoSync
pub mod Altered
pub mod Rooms
pub mod Bounds
pub mod Refused
pub mod Metering
pub mod Money
pub mod Samples
pub mod MoneySamples
pub mod CallSamples
