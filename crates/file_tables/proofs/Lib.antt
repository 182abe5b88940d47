pub mod Laid
pub mod Rooms
pub mod Tables
