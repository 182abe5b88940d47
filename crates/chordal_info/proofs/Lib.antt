pub mod Sizes
pub mod Counts
pub mod Routes
