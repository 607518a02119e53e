pub mod Modulo
pub mod Patterns
pub mod Fields
pub mod LongShifts
mod Rows
pub mod Shapes
pub mod Signs
