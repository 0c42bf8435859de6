-- What the listing of a tag is, from document 01, and what the functions that put it answer.
pub mod Lines
pub mod Turns
