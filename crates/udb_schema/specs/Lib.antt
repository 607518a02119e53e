pub mod Equality
pub mod Meets
pub mod Faults
pub mod Validating
pub mod Spelled
pub mod Reading
