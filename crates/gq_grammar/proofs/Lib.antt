pub mod Sets
pub mod Claims
pub mod TokenLemmas
pub mod ThenLemmas
pub mod MadeLemmas
pub mod ManyLemmas
pub mod SignLemmas
pub mod ExactLemmas
pub mod SeriesLemmas
pub mod LoopLemmas
pub mod GrowthLemmas
pub mod WholeLemmas
mod PlaceLemmas
