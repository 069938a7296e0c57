pub mod QueryReads
mod SeriesLemmas
pub mod StatementReads
mod PlaceLemmas
mod CutLemmas
mod ScriptLemmas
mod StepLemmas
