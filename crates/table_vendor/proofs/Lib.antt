pub mod Judging
mod ListEntries
pub mod VendorPasses
pub mod FreshEntries
mod WorkedLists
