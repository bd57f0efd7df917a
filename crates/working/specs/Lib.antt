pub mod Run
pub mod Lent
pub mod Nodes
pub mod Statements
