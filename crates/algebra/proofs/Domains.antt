-- Domains and the rows under them.
pub mod Part
pub mod Keys
