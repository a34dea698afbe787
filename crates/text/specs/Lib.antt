pub mod Words
pub mod Lines
pub mod Listed
pub mod Reasons
