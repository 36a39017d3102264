pub mod Built
pub mod Texts
pub mod WordKinds
pub mod Rows
pub mod Turns
pub mod Reading
pub mod Answer
