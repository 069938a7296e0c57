pub mod Clock
pub mod Elements
pub mod Wants
pub mod Steps
