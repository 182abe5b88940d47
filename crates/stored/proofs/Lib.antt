pub mod Fronts
pub mod Floats
