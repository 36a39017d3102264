pub mod PlainTexts
pub mod ReplyLines
pub mod ReplyEnds
pub mod Histories
pub mod SessionReplies
