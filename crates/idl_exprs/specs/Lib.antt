pub mod Exprs
pub mod Gives
pub mod Lists
pub mod Steps
pub mod Widths
