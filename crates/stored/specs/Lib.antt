pub mod Same
pub mod Lists
