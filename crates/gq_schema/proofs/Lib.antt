pub mod NameLemmas
pub mod AttributeLemmas
pub mod MemberLemmas
pub mod JudgeLemmas
