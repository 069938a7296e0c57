pub mod KeyChainLemmas
pub mod KeyLemmas
pub mod KeySlotLemmas
pub mod Seeks
