pub mod OperatorLemmas
pub mod CompareLemmas
pub mod ContentLemmas
pub mod ConvertLemmas
