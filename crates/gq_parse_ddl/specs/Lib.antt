pub mod Schema
pub mod Jobs
