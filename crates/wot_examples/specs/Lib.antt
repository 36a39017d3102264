pub mod Keyrings
