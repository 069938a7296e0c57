pub mod Selecting
pub mod Assigning
pub mod Plans
pub mod Steps
pub mod Bodies
