pub mod Causes
pub mod Stopped
pub mod Places
pub mod ReadBack
pub mod StmtSteps
