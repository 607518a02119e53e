pub mod Places
pub mod Open
pub mod Meaning
pub mod Parts
pub mod Tests
pub mod Steps
pub mod Tally
pub mod Requirements
