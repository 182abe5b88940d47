pub mod Integers
pub mod Sums
pub mod OnRow
pub mod Bytes
pub mod Triangles
