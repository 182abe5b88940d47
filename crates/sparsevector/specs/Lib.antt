pub mod Sides
pub mod Values
