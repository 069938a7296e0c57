pub mod PairLemmas
pub mod RowLemmas
pub mod ArithmeticLemmas
pub mod AgreeLemmas
pub mod AccumLemmas
pub mod CrossingLemmas
