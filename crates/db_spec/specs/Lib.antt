pub mod Rules
pub mod Sites
pub mod Entries
pub mod Kinds
pub mod Breaks
pub mod First
