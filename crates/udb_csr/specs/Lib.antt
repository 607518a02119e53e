pub mod Faults
pub mod Steps
pub mod Reads
pub mod Resets
