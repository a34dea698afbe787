pub mod Held
pub mod Cut
pub mod Kept
pub mod Unflushed
pub mod Sims
