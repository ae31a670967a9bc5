pub mod RowsRan
