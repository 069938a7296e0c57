pub mod Line
pub mod Number
pub mod Ranges
pub mod Words
pub mod Sample
pub mod Script
