pub mod WordLemmas
pub mod RunLemmas
pub mod GrowthLemmas
pub mod StuckLemmas
pub mod SafeLemmas
pub mod LeftLemmas
pub mod SessionLemmas
pub mod QueryLemmas
