pub mod Matrix
