-- Words filled in from the front.
pub mod Laws
