pub mod Misfit
pub mod MisfitLaws
pub mod Tests
