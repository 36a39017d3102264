pub mod Block
pub mod Begun
pub mod Answer
pub mod EditReply
