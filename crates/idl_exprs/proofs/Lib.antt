pub mod AtomSteps
pub mod WidthSteps
pub mod RowSteps
pub mod ExprSteps
pub mod LevelSteps
