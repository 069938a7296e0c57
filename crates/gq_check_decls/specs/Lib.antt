pub mod Written
pub mod Counts
pub mod Heads
