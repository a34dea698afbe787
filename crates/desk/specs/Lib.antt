pub mod Refusals
pub mod Desk
pub mod Opening
pub mod Statements
