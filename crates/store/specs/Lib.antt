pub mod Cells
pub mod Database
pub mod Rows
pub mod Widest
pub mod Store
