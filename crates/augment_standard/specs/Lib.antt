pub mod Beside
pub mod Constraints
