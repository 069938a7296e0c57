pub mod Attributes
pub mod Declarations
pub mod Jobs
pub mod Placed
pub mod Tells
pub mod Fitting
pub mod FittingLaws
