pub mod DayWords
pub mod Equations
pub mod Windows
pub mod MapBytes
