pub mod PlaceLemmas
pub mod ParameterLemmas
pub mod ScopeLemmas
pub mod FailLemmas
pub mod FieldLemmas
pub mod HeadLemmas
pub mod PrintLaws
