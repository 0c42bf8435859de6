-- What writing answers, from document 01.
pub mod Writer
pub mod Answers
pub mod Pens
pub mod Layouts
pub mod Smalls
pub mod Packs
pub mod Plans
pub mod Finishes
pub mod Between
