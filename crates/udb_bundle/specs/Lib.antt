pub mod Bundles
pub mod Faults
pub mod Reading
pub mod Titles
