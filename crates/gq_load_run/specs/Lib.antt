pub mod Reports
pub mod Loads
pub mod LoadLaws
pub mod Remains
pub mod Loadings
pub mod LoadingLaws
pub mod JobRuns
pub mod JobLaws
