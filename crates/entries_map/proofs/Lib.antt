pub mod Entries
pub mod Maps
pub mod Few
