pub mod Kept
pub mod Held
pub mod Named
pub mod NameTables
pub mod Views
pub mod Parts
