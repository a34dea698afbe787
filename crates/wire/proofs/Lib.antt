pub mod Numbers
pub mod Calls
pub mod Rows
pub mod Answers
