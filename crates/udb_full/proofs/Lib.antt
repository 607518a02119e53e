pub mod DoneLines
pub mod JsonLemmas
pub mod FrontLaws
pub mod FoundLaws
pub mod TextLaws
pub mod PlaceLaws
