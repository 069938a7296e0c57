pub mod Written
pub mod Judged
mod TypedExpressions
mod TypedStatements
mod TypedDeclarations
mod TypedSelects
mod TypedQueries
pub mod ViewLaws
