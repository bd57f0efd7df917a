-- Words from bytes.
pub mod Bytes
