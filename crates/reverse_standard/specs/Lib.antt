pub mod Averages
pub mod Routes
