pub mod Column
pub mod Marks
pub mod Insertion
