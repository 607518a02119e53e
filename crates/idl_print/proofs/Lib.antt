pub mod NodeLaws
pub mod StatementLaws
