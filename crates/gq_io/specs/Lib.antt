pub mod Counts
pub mod Devices
pub mod Files
pub mod Listing
pub mod Schedule
pub mod Sink
pub mod Known
