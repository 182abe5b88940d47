pub mod Parts
pub mod Runs
pub mod Steps
pub mod Lists
pub mod Insertion
pub mod Marks
pub mod Repeated
