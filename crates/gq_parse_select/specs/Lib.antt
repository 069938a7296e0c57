pub mod Acts
pub mod Nests
pub mod Selects
pub mod Bodies
