pub mod Receipts
pub mod Receiving
