pub mod Windows
pub mod Passed
pub mod Scattered
