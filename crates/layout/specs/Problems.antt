pub mod Problem
pub mod Cones
pub mod Patterns
pub mod CliqueTree
