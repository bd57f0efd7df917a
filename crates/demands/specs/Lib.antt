-- The demands of the mission, over words.
pub mod ScrubList
pub mod Agreement
pub mod Rewriting
pub mod Visits
pub mod Evaluation
