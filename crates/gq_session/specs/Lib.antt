pub mod Runs
pub mod Arguments
pub mod Statements
pub mod StatementLaws
pub mod Safe
pub mod Keeping
