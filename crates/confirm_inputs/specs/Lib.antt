pub mod ConfirmInputs
pub mod InputReading
