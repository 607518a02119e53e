pub mod Parse
pub mod Statements
