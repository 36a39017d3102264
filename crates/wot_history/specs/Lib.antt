pub mod History
pub mod Reading
