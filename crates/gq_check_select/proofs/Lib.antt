pub mod TreeLemmas
pub mod InputLemmas
pub mod ActPlaceLemmas
pub mod PlaceLemmas
pub mod SelectLemmas
pub mod SetLemmas
