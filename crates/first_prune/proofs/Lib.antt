pub mod FactLemmas
pub mod PruningLemmas
pub mod Worlds
pub mod Asking
pub mod Steady
pub mod Settling
pub mod Shown
