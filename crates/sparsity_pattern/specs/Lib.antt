pub mod Sparsity
