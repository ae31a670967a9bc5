mod RowsStored
pub mod RowsSoFar
pub mod RowLinesFed
pub mod Gathering
