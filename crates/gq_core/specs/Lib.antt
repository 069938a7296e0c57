pub mod Accounts
pub mod Batches
pub mod Contents
pub mod Machine
