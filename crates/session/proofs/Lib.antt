pub mod Replies
pub mod Readable
pub mod Steps
pub mod Replays
pub mod Openings
pub mod Images
