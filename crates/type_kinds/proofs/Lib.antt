pub mod FormulaForms
pub mod KindLemmas
pub mod VisibleNames
