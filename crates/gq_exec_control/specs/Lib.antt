pub mod Standing
pub mod Values
pub mod Contexts
pub mod Faults
pub mod Places
pub mod Changes
pub mod Rounds
pub mod Locals
