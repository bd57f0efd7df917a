pub mod Laws
pub mod Accepted
pub mod Answers
