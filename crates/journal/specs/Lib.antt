pub mod Headers
pub mod Blocks
pub mod Tail
pub mod Recovery
