-- The proofs of the demands.
pub mod ScrubList
pub mod Agreement
pub mod Rewriting
pub mod Judged
pub mod Visited
pub mod Seen
pub mod Evaluation
