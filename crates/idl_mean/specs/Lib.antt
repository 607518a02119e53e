pub mod Flows
pub mod Evaluators
