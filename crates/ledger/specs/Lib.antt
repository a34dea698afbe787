pub mod Facts
pub mod Meaning
pub mod Made
pub mod Opened
