pub mod Telling
pub mod Teller
