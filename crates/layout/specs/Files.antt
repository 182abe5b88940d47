pub mod File
pub mod FileWords
