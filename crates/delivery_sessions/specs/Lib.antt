pub mod QueryParts
pub mod QueryRuns
