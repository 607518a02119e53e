pub mod Nodes
pub mod Heads
pub mod Reading
