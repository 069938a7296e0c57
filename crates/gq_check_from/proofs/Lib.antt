pub mod NameLemmas
pub mod GrowLemmas
pub mod NumberLemmas
pub mod SortLemmas
pub mod ScopeLemmas
pub mod StepLemmas
