pub mod SameRows
pub mod Replied
pub mod OneStatus
