pub mod Matching
pub mod Laws
pub mod Growing
pub mod Safety
