pub mod Keyed
pub mod Rules
pub mod Checks
