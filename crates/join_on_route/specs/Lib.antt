pub mod Begins
pub mod Fits
