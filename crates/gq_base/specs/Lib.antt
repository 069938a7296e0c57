pub mod formers
pub mod Lends
pub mod Hash
pub mod Keys
pub mod KeyChains
pub mod KeySlots
pub mod Last
