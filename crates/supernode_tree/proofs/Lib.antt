pub mod Tests
pub mod Words
pub mod Many
pub mod Cliques
pub mod Patterns
pub mod Offsets
pub mod Sizes
