pub mod Patterns
pub mod Picks
pub mod Kept
