mod Listed
mod Strangers
pub mod RowIds
