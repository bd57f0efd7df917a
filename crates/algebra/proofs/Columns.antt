-- Columns that moved.
pub mod Picked
pub mod Moved
