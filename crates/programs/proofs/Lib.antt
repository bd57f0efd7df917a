-- What the listing knows of a plan that the check accepted.
pub mod Accepted
