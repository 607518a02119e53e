pub mod Names
pub mod Reads
pub mod Cases
pub mod Presence
pub mod Breaks
