pub mod Offsets
pub mod ProblemFloats
pub mod Lengths
pub mod FileWords
pub mod FileWalks
pub mod CompactCones
pub mod CompactProblem
