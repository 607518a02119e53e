pub mod BitVector
pub mod Number
pub mod Operators
pub mod Sign
