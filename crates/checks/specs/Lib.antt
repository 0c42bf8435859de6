-- The checks in the table's order and in that of the code, from document 01.
pub mod Checks
pub mod Sizes
