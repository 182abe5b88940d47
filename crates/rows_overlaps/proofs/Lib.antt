pub mod Starts
pub mod Codes
pub mod Patterns
