pub mod ReconcileInputs
