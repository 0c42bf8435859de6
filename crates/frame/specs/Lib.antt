-- What the functions of this crate answer, on the definitions of the format.
pub mod Headers
pub mod Utf8
pub mod Bodies
pub mod References
pub mod Answers
