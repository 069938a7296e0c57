pub mod SchemaReads
pub mod JobReads
