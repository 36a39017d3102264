pub mod Pairs
pub mod Ranges
