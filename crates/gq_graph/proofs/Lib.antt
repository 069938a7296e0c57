pub mod CandidateExamples
pub mod EvenLemmas
pub mod SpanLemmas
