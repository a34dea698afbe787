pub mod Headers
pub mod Tails
pub mod Rows
pub mod Recovery
