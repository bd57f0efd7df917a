pub mod Reads
pub mod Given
pub mod Under
