pub mod FoldLemmas
pub mod LawLemmas
pub mod ListLemmas
pub mod RuleLemmas
