pub mod Marks
pub mod Sides
pub mod Rows
pub mod Parts
