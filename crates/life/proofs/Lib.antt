pub mod Saying
pub mod Runs
pub mod Sameness
pub mod Calling
pub mod Cuts
pub mod Room
