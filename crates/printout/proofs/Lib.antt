-- Worked cases of the listing, then laws that the proofs of the functions and of programs cite.
pub mod WorkedListings
pub mod Puts
pub mod Texts
