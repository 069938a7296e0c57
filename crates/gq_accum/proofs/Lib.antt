pub mod SumSteps
pub mod NumberSteps
pub mod FreshSteps
pub mod SealSteps
