pub mod Answered
pub mod Made
pub mod OneReply
pub mod Shown
