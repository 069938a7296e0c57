pub mod Fold
pub mod Rule
pub mod Seats
pub mod Shift
