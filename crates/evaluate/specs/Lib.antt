pub mod Answer
pub mod Numbers
