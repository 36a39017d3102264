pub mod Earlier
pub mod Bases
pub mod Records
pub mod Wholes
