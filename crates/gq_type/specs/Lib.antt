pub mod Calls
pub mod Arguments
