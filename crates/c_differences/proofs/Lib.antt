mod NextRow
mod ProductDifferences
pub mod RowsOfText
