pub mod Places
pub mod Steps
pub mod Answers
pub mod Clauses
pub mod Printing
pub mod Keys
