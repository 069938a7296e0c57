pub mod Histories
pub mod Entries
pub mod Shows
pub mod Copies
pub mod Lists
pub mod Answering
