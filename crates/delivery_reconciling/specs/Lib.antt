pub mod ReconcileRuns
