pub mod Answer
pub mod Closing
pub mod Numbers
