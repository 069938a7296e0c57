pub mod Kept
pub mod Members
pub mod Refusals
pub mod Tells
