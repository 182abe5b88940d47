pub mod Marks
pub mod Walked
pub mod Patterns
pub mod Separators
