pub mod InputReads
pub mod ActReads
pub mod WalkReads
pub mod SelectReads
pub mod Missing
mod LevelLemmas
pub mod StageLemmas
