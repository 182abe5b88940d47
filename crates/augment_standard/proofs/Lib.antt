pub mod Columns
pub mod Beside
pub mod Constraints
