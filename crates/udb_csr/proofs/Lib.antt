pub mod WidthLaws
pub mod FaultLaws
pub mod ListLaws
pub mod NumberLaws
pub mod ResetLaws
