pub mod Trees
pub mod Snodes
