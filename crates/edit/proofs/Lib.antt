-- The laws of editing.

-- bytes, and the blocks of a tag
pub mod OtherBlocks
pub mod Places
pub mod Finding
pub mod LiftSteps
pub mod LiftSought
-- replacing, removing and appending
pub mod Accepting
pub mod EditedReads
pub mod After
pub mod Runs
pub mod StaysPlain
pub mod Adding
pub mod Rooms
pub mod Refusing
pub mod Pairs
pub mod Sequences
pub mod Written
pub mod Samples
pub mod Cases
-- lifting
pub mod LiftMeters
pub mod LiftCounters
pub mod LiftAccepting
pub mod LiftCame
pub mod LiftAfter
pub mod LiftReads
pub mod LiftGrows
pub mod LiftTwice
pub mod LiftPairs
pub mod LiftOrders
pub mod LookNumbers
pub mod LiftRooms
pub mod LiftRefusing
pub mod LiftWritten
pub mod LiftSamples
pub mod LiftCases
