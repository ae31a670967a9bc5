pub mod Differences
pub mod DifferencePasses
