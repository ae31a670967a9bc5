pub mod Transfers
pub mod Inputs
