-- The text form of a plan table: what is written, what a text gives, and what the two functions answer.
pub mod Numbers
pub mod Text
pub mod Reading
pub mod Lines
pub mod Examples
pub mod Answers
pub mod Steps
