pub mod CycleLemmas
pub mod ElseLemmas
pub mod GrowLemmas
pub mod LastLemmas
pub mod ListLemmas
pub mod StepLaws
