pub mod Order
pub mod Accepted
pub mod Routes
pub mod Rooms
