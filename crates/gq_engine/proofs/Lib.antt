pub mod NumberLaws
pub mod EngineLemmas
