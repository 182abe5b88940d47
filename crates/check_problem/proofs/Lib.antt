pub mod Order
pub mod Checked
pub mod Sums
pub mod Left
