pub mod Unplanned
pub mod Heading
pub mod Prints
pub mod Safe
