pub mod Fronts
pub mod Runs
pub mod Compressed
