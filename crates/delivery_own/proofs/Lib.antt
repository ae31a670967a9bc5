pub mod RowBytes
pub mod WordsReadBack
pub mod DatesReadBack
mod RowsReadBack
mod PrintableRows
pub mod Orders
mod DeliveredPlaces
mod OwnReceipts
mod OwnInputs
pub mod Own
