pub mod Issues
pub mod Names
