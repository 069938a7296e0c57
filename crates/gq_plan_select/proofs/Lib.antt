pub mod ActLemmas
pub mod BlockLaws
