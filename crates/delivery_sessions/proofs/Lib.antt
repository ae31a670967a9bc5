pub mod QueryLinesFed
pub mod QueryPassing
pub mod QueryRuns
