pub mod Blocks
pub mod Orders
