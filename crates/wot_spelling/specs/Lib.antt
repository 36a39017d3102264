pub mod Reading
pub mod Checks
pub mod Edits
pub mod Stored
pub mod Sizes
pub mod Fields
