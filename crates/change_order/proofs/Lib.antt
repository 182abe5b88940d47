pub mod Laws
pub mod Blocks
