pub mod Bank
pub mod Live
pub mod Effect
pub mod Fresh
pub mod Walk
