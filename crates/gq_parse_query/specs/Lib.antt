pub mod Items
pub mod StmtNests
