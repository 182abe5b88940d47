pub mod Sizes
pub mod Routes
