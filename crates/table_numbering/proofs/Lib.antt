pub mod MonthsRise
pub mod FirstMaturities
pub mod Renumbering
pub mod Unique
