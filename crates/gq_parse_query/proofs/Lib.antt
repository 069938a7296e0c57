mod ItemLemmas
mod LevelLemmas
mod Past
mod PrintLemmas
mod SetReads
mod PrintReads
mod StmtReads
pub mod BodyReads
