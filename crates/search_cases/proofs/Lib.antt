pub mod Named
pub mod Small
