pub mod Answers
pub mod Rooms
pub mod Refusals
