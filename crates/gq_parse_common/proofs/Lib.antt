pub mod Steps
pub mod LiteralReads
pub mod ExactReads
mod ListLemmas
pub mod KindReads
mod LevelLemmas
