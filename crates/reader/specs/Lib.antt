-- What reading answers, from document 01.
pub mod Reader
pub mod Headers
pub mod Answers
