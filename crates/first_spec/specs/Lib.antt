pub mod Alphabets
pub mod Bundle
