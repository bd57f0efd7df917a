-- Whole plans: their nodes, their rewriting, and the theorem.
pub mod Even
pub mod Agreement
pub mod Shapes
pub mod Tidy
pub mod Placing
pub mod Fine
pub mod Nodes
pub mod Theorem
pub mod Growth
pub mod Used
