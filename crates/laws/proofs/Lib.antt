-- Laws on truth values, lists, tables and stores.
pub mod Bools
pub mod Parts
pub mod Tables
pub mod Slices
pub mod Cuts
pub mod Stores
pub mod Chains
pub mod Pieces
pub mod Results
