pub mod Queries
pub mod QueriedTables
