pub mod Roots
pub mod Columns
