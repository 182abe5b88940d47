pub mod Stretch
pub mod Parts
pub mod Averages
pub mod Walk
pub mod Counts
pub mod Sizes
