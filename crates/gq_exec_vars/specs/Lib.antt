pub mod Lookups
pub mod Written
pub mod Begun
