pub mod Windows
pub mod Passed
pub mod Scattered
pub mod Placed
pub mod Tables
