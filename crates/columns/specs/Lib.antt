pub mod Firsts
pub mod Sizes
pub mod Parts
pub mod Rows
pub mod Cells
pub mod RateRows
pub mod Links
pub mod Spare
