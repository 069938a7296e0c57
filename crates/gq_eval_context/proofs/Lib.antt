pub mod FieldLemmas
pub mod DegreeLemmas
pub mod SeesLemmas
pub mod LimitLemmas
pub mod FaultLemmas
