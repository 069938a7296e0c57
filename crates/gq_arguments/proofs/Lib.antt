pub mod CountLemmas
pub mod LookupLemmas
pub mod MemberLemmas
pub mod RowLemmas
