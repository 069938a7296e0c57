mod SumFits
mod SetFits
mod SendLemmas
pub mod RowLemmas
mod BlockLemmas
mod BlockSend
