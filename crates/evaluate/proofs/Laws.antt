pub mod NoRows
pub mod Output
pub mod PastRefusals
pub mod Refusals
pub mod Root
