-- Laws that the proofs of several functions use; those of the order also where the writer calls the checks.
pub mod Firsts
pub mod Passed
mod Headings
mod Closed
mod Fitting
pub mod Order
