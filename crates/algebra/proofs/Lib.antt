-- The laws, by topic; the statements stand in Statements, Aggregates and Cases.
pub mod Cases
pub mod Lists
pub mod Aggregates
pub mod Columns
pub mod Domains
pub mod Under
pub mod Tables
pub mod Statements
