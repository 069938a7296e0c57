pub mod Trees
pub mod Selects
