pub mod Answers
pub mod Messages
pub mod Codes
pub mod Outcome
pub mod Effects
