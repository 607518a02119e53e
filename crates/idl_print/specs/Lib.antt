pub mod Searches
pub mod StatementLines
