pub mod Paths
pub mod Search
pub mod Answers
pub mod Boards
pub mod Variables
