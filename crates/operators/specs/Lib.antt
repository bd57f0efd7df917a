pub mod Bindings
pub mod Lent
pub mod Choice
pub mod Made
