pub mod Tests
pub mod Readings
