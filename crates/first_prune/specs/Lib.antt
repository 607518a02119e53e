pub mod Known
pub mod Pruning
pub mod Facts
pub mod Bundles
