pub mod Steps
pub mod Columns
pub mod Places
pub mod Cut
pub mod Groups
pub mod Followers
