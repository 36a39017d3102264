pub mod ToldText
pub mod Counts
pub mod KeyLetters
pub mod OwnertrustWalk
