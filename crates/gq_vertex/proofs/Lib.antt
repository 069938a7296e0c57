pub mod JoinLemmas
pub mod KeyedLemmas
pub mod SortedLemmas
pub mod VertexLemmas
