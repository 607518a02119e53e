pub mod PatternLaws
pub mod KeptLaws
pub mod NameLaws
