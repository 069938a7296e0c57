pub mod References
pub mod Parts
pub mod Steps
pub mod Laws
