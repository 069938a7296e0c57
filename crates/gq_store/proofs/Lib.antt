pub mod Beginnings
pub mod Adding
pub mod EntryLemmas
pub mod SeenLemmas
pub mod ChangeLemmas
pub mod CopyLemmas
pub mod CrossingLemmas
