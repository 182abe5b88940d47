pub mod Columns
pub mod Words
