pub mod Stores
pub mod Values
pub mod Upserts
pub mod Records
pub mod Catalogs
