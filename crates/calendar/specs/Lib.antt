pub mod Bits
pub mod Trading
