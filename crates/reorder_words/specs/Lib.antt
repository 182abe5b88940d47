pub mod Tables
pub mod Laying
