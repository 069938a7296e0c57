pub mod EdgeLemmas
pub mod EdgeNames
pub mod JoinLemmas
pub mod SortedLemmas
pub mod TableLemmas
