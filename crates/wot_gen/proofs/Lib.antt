pub mod Decimals
pub mod FprOrder
pub mod Ranges
pub mod SettableEntries
