pub mod Vertices
pub mod Sifting
pub mod Columns
pub mod Cliques
pub mod Codes
