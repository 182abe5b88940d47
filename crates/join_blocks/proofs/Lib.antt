pub mod Laws
pub mod Room
