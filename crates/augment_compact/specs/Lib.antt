pub mod Cut
pub mod Places
pub mod Groups
