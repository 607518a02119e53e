pub mod Bodies
pub mod Capped
pub mod Prices
pub mod Turns
