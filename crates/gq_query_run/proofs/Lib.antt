pub mod InstallLemmas
pub mod SlotLemmas
pub mod AnswerLemmas
pub mod RunLemmas
pub mod TypedLemmas
pub mod InterpretLemmas
pub mod PlaceLemmas
pub mod ReadyLemmas
