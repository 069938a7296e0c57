pub mod Expression
pub mod Literals
pub mod Readers
pub mod Exact
pub mod Kinds
pub mod KindNests
