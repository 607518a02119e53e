pub mod Machine
pub mod Verdict
pub mod Views
