pub mod CondLaws
pub mod RequirementLaws
