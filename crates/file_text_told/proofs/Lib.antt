pub mod ToldTexts
pub mod Lengths
pub mod Whole
pub mod RecordBytes
pub mod Faultless
pub mod CleanDays
pub mod ListRecords
pub mod Placed
