-- What the words of a plan table say, when they are accepted, and how a plan is written as words.
pub mod Words
pub mod Items
pub mod Plan
pub mod Terms
pub mod Sorts
pub mod Codes
pub mod Verdict
pub mod Answers
pub mod Encoding
pub mod Promise
pub mod Passes
