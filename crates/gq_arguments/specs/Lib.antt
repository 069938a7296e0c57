pub mod Holds
pub mod Objects
pub mod Given
pub mod Members
pub mod Places
pub mod Rows
