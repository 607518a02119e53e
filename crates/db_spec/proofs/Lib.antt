pub mod RowLaws
pub mod EntryLaws
pub mod LateLaws
