pub mod Candidates
pub mod Vertices
pub mod Edges
pub mod Defaults
pub mod Catalog
pub mod SortLaws
pub mod Spans
