-- The laws; what is promised of the text form stands in Statements, that an answer is one in Answers.
pub mod Laws
pub mod Statements
pub mod Examples
pub mod Answers
