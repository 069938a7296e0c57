pub mod References
pub mod Resolved
pub mod Laws
