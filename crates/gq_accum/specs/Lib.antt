pub mod Wide
pub mod Scalars
pub mod ScalarLaws
pub mod Seals
