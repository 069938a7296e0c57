pub mod RuleLemmas
pub mod ScopeLemmas
pub mod FieldLemmas
pub mod CallLemmas
pub mod ArgumentLemmas
