pub mod TupleLemmas
pub mod FieldLemmas
pub mod KindLemmas
pub mod NumberLemmas
pub mod HeadLemmas
