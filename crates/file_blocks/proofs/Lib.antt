pub mod Arrays
pub mod Files
pub mod Ranges
pub mod TestCounts
pub mod Zeros
