pub mod Bits
pub mod Distinct
pub mod ProgramTests
pub mod StateTests
pub mod VariableTests
pub mod LiteralForms
pub mod ReadingTests
