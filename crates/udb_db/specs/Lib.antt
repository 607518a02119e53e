pub mod Phases
pub mod Databases
pub mod Accepts
