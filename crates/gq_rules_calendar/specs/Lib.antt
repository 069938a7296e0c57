pub mod Days
pub mod Adding
pub mod Reading
pub mod Gregorian
