pub mod Reads
pub mod Offsets
pub mod Sizes
