pub mod Columns
pub mod Rows
pub mod Numbers
pub mod Tables
