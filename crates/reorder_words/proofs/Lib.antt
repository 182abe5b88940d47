pub mod Placing
pub mod Owning
pub mod Laying
pub mod Pasting
pub mod Reading
pub mod Refusal
pub mod Walking
pub mod Rewriting
