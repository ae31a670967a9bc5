pub mod CashParts
pub mod Multiples
pub mod Rounding
