pub mod Lists
pub mod Bytes
pub mod Floats
pub mod Triangle
