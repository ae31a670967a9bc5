pub mod Reconciled
pub mod Standings
