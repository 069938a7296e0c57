pub mod Messages
pub mod Scripts
pub mod CommandLine
