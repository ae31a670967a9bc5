pub mod RowsRuns
