-- What a plan means and the rules that rewrite it, in document 01's order.
pub mod Lists
pub mod Value
pub mod Plan
pub mod Operators
pub mod Meaning
pub mod Columns
pub mod Domains
pub mod Rewriting
pub mod Statements
pub mod Cases
