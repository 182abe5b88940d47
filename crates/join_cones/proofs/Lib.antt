pub mod Inside
pub mod Laws
