pub mod Entries
pub mod Text
pub mod Covers
pub mod ShownProgram
pub mod Faithful
pub mod Settled
