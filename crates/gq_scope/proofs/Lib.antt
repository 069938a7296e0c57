mod NameTableLemmas
mod TupleLemmas
mod KeptLemmas
mod WordLemmas
pub mod TurnLemmas
pub mod BaseLemmas
mod FieldLemmas
