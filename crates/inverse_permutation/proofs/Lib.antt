pub mod Inverted
pub mod Filled
