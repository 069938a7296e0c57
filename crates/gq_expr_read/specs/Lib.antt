pub mod Descent
pub mod Nests
