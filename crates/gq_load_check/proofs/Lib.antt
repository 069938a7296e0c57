pub mod FileLemmas
pub mod FitLemmas
pub mod JudgeLemmas
pub mod PathLemmas
