pub mod MonthTable
pub mod MonthOfDay
pub mod Years
pub mod Dates
