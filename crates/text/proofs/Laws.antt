-- The laws behind the writer and the reader, by topic.
pub mod Fits
pub mod Places
pub mod Forms
pub mod Decimal
pub mod Fields
pub mod Whole
pub mod Longest
pub mod Rows
pub mod Split
pub mod FirstBad
pub mod Named
pub mod Digits
pub mod Stepped
pub mod Judged
pub mod Writing
pub mod WrittenLines
pub mod WrittenTable
