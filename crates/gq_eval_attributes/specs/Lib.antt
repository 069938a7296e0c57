pub mod Worlds
pub mod Attributes
pub mod Tuples
pub mod Parts
pub mod Reads
