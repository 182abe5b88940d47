pub mod Cases
pub mod FileCases
