pub mod Each
pub mod ExprLaws
pub mod Nodes
pub mod Operands
pub mod Print
pub mod PrintFunctions
pub mod StmtLaws
pub mod WidthLaws
