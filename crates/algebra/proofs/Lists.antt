-- Laws of lists and rows that know nothing of plans.
pub mod Every
pub mod Keep
pub mod Entries
pub mod Same
pub mod Distinct
pub mod Sums
pub mod Standing
