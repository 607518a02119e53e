pub mod Keys
pub mod Alphabets
pub mod Bodies
pub mod Entries
pub mod Rules
pub mod First
pub mod Parts
pub mod Config
