pub mod Adding
pub mod Moments
pub mod Places
pub mod Reading
pub mod Texts
