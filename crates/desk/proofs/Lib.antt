pub mod Beginning
pub mod Serving
pub mod Endings
pub mod Lines
