pub mod NamedLaws
pub mod ReadLaws
pub mod CaseLaws
pub mod PresenceLaws
pub mod BreachLaws
