pub mod KeyLemmas
pub mod PlaceLemmas
pub mod RuleLemmas
mod SafeLemmas
