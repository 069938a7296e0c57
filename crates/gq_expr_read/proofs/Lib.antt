pub mod ChainLemmas
pub mod ComparisonLemmas
pub mod LevelLemmas
pub mod Productions
pub mod Growth
