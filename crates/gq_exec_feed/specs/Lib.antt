pub mod Taking
pub mod Feeding
pub mod Steps
pub mod Ints
