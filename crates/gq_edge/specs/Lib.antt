pub mod Flat
pub mod Hashed
pub mod Joined
pub mod Keyed
pub mod Named
pub mod Sorted
