pub mod Assembled
pub mod Passes
pub mod Refusals
pub mod Typing
