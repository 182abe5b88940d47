pub mod Laws
pub mod Cones
pub mod Codes
pub mod Tables
