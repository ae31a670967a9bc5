pub mod Openings
pub mod Counts
pub mod ReconcileRuns
