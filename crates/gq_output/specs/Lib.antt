pub mod Printed
pub mod Vertices
pub mod Items
pub mod Prints
