pub mod Laws
pub mod Sifting
pub mod Columns
pub mod Cliques
pub mod Orders
pub mod Patterns
pub mod Offsets
