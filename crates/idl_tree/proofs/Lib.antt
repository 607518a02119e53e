pub mod FunctionLemmas
pub mod Margins
pub mod Printed
