pub mod Fits
pub mod Inserts
pub mod SoundLaws
pub mod Inserting
pub mod InsertingLaws
