pub mod Gather
pub mod Holds
pub mod Inputs
pub mod After
pub mod Fits
pub mod Reads
pub mod Targets
pub mod Laws
