pub mod Writes
pub mod Passes
pub mod Held
