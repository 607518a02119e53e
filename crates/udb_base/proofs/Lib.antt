pub mod LineLemmas
pub mod FrontLemmas
mod KeyLemmas
pub mod OrderLemmas
