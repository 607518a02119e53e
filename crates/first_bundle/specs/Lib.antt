pub mod Checks
pub mod Lines
pub mod Statements
pub mod Reading
pub mod Blocks
pub mod Laws
pub mod Printing
