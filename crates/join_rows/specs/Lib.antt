pub mod Joined
pub mod Counts
