pub mod Input
pub mod Questions
pub mod Replies
pub mod Words
