pub mod Sets
pub mod Domains
pub mod Pages
pub mod Items
pub mod Output
