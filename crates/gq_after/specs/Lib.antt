pub mod Ascending
pub mod Before
pub mod Ranks
pub mod Sights
