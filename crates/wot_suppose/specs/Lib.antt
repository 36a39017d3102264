pub mod Introducing
pub mod Near
pub mod Trials
