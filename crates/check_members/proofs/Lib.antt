pub mod Walks
pub mod Unmarked
