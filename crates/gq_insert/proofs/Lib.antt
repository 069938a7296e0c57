pub mod FitLemmas
pub mod RowLemmas
