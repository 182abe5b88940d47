pub mod Laws
pub mod Counts
