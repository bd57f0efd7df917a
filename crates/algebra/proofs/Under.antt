-- The operators under a domain.
pub mod Groups
pub mod Joins
pub mod Operators
pub mod Unnest
