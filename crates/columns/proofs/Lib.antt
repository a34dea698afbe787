pub mod First
pub mod Cell
pub mod Put
pub mod Chain
pub mod Running
