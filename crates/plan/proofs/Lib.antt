-- The laws; the statements stand in Promise, Answers and Encoding.
pub mod Laws
pub mod Promise
pub mod Answers
pub mod Encoding
