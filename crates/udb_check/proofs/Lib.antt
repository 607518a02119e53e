pub mod CheckLaws
pub mod NodeLaws
pub mod Flawless
pub mod TextLaws
pub mod HeadLaws
pub mod Forest
