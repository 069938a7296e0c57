pub mod Known
pub mod Globals
pub mod Found
pub mod Names
pub mod Resolved
pub mod Called
pub mod Laws
