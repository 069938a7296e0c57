pub mod ControlLemmas
pub mod LoopLemmas
pub mod SelectLemmas
pub mod AssignLemmas
pub mod ChangeLemmas
pub mod PrintLemmas
pub mod ProgramLemmas
pub mod QueryLemmas
