pub mod SuitLemmas
pub mod FormLemmas
pub mod PlaceLemmas
pub mod SlotLemmas
pub mod CopyLemmas
pub mod FeedLemmas
pub mod FitLemmas
pub mod BatchLemmas
