pub mod Times
pub mod Viewed
pub mod Looks
pub mod LookLaws
pub mod FieldReads
pub mod Answered
pub mod Faults
pub mod Limits
